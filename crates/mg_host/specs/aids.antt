pub mod HostLog
