pub mod LockChecks
