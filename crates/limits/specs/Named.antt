-- The numbers of Limits, as the code's `Numbers` has them. Assumes nothing.
use Rattle.limits.specs.declared.Numbers.{Numbers}
use Rattle.limits.specs.Limits.{transactions_most, locks_most, pages_most, key_size, page_size, head_size, body_size, pages_size, entry_size, leaf_most, leaf_stay, leaf_go, child_size, inner_most, inner_fewest, inner_stay, inner_go, desk_head_size, queue_size, record_size, records_place, slot_size, slots_place, desk_size, request_head_size, read_size, insert_size, delete_size, answer_size, space_least}

abbrev pub named : Numbers
named =
    record {
      transactions_most = transactions_most;
      locks_most = locks_most;
      pages_most = pages_most;
      key_size = key_size;
      page_size = page_size;
      head_size = head_size;
      body_size = body_size;
      pages_size = pages_size;
      entry_size = entry_size;
      leaf_most = leaf_most;
      leaf_stay = leaf_stay;
      leaf_go = leaf_go;
      child_size = child_size;
      inner_most = inner_most;
      inner_fewest = inner_fewest;
      inner_stay = inner_stay;
      inner_go = inner_go;
      desk_head_size = desk_head_size;
      queue_size = queue_size;
      record_size = record_size;
      records_place = records_place;
      slot_size = slot_size;
      slots_place = slots_place;
      desk_size = desk_size;
      request_head_size = request_head_size;
      read_size = read_size;
      insert_size = insert_size;
      delete_size = delete_size;
      answer_size = answer_size;
      space_least = space_least;
      last_transaction = transactions_most;
    }
