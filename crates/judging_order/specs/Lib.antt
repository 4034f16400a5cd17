pub mod LockOrders
