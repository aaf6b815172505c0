pub mod Header
pub mod Packet
pub mod RtpFault
pub mod Reading
pub mod aids
