-- Document 01's limits and sizes, each once; what follows from others is computed from them. Sizes and places are counted in bytes.
-- Assumes nothing.
use Rattle.std.specs.Prelude.{ℕ, ◌+◌, ◌*◌, ◌-◌, ◌/◌}

-- ---- the limits: "16 transactions", "256 locks", "64 pages"
abbrev pub transactions_most : ℕ
transactions_most = 16

abbrev pub locks_most : ℕ
locks_most = 256

abbrev pub pages_most : ℕ
pages_most = 64

-- ---- a key has 8 bytes wherever it stands
abbrev pub key_size : ℕ
key_size = 8

-- ---- pages: "64 pages of 512 bytes; each head is 16 bytes"
abbrev pub page_size : ℕ
page_size = 512

abbrev pub head_size : ℕ
head_size = 16

abbrev pub body_size : ℕ
body_size = page_size - head_size

abbrev pub pages_size : ℕ
pages_size = page_size * pages_most

-- ---- leaves: "up to 24 entries of 20 bytes (key, record now, record before, owner 2, presence 1 .., one zero)"; "A full leaf with one more
-- (25): the lowest 13 stay, 12 move"
abbrev pub entry_size : ℕ
entry_size = key_size + 12

abbrev pub leaf_most : ℕ
leaf_most = body_size / entry_size

abbrev pub leaf_stay : ℕ
leaf_stay = (leaf_most + 2) / 2

abbrev pub leaf_go : ℕ
leaf_go = leaf_most + 1 - leaf_stay

-- ---- inner pages: "up to 30 children of 16 bytes (separator 8, page 2, six zeros)", "15 to 30"; "Inner (31): 16 stay, 15 move"
abbrev pub child_size : ℕ
child_size = key_size + 8

abbrev pub inner_most : ℕ
inner_most = 30

abbrev pub inner_fewest : ℕ
inner_fewest = inner_most / 2

abbrev pub inner_stay : ℕ
inner_stay = (inner_most + 2) / 2

abbrev pub inner_go : ℕ
inner_go = inner_most + 1 - inner_stay

-- ---- the desk: "32-byte head", "queue of 16 two-byte transaction numbers", "16 transactions of 32 bytes (running 2 .., waiting kind 2,
-- record 4, lo 8, hi 8, eight zeros)", "256 locks of 16 bytes (key 8, transaction 2, mode 2 .., four zeros)"
abbrev pub desk_head_size : ℕ
desk_head_size = 32

abbrev pub queue_size : ℕ
queue_size = 2 * transactions_most

abbrev pub record_size : ℕ
record_size = 2 * key_size + 16

abbrev pub records_place : ℕ
records_place = desk_head_size + queue_size

abbrev pub slot_size : ℕ
slot_size = key_size + 8

abbrev pub slots_place : ℕ
slots_place = records_place + record_size * transactions_most

abbrev pub desk_size : ℕ
desk_size = slots_place + slot_size * locks_most

-- ---- requests: "length, kind, transaction, two zero bytes; then by kind .. 4 read: lo, hi (24); 5 insert: key, record, four zero bytes (24);
-- 6 delete: key (16)"
abbrev pub request_head_size : ℕ
request_head_size = 8

abbrev pub read_size : ℕ
read_size = request_head_size + 2 * key_size

abbrev pub insert_size : ℕ
insert_size = request_head_size + key_size + 8

abbrev pub delete_size : ℕ
delete_size = request_head_size + key_size

-- ---- answers: "Answer: length 20, kind 7, transaction, number, key, record"; space for one to each transaction, 320
abbrev pub answer_size : ℕ
answer_size = key_size + 12

abbrev pub space_least : ℕ
space_least = answer_size * transactions_most
