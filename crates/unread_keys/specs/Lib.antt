pub mod Sorts
pub mod Unread
pub mod Rows
pub mod UnreadSupport
