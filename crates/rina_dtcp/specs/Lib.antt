pub mod Sents
pub mod Senders
pub mod Rows
pub mod Lending
pub mod Plans
