pub mod EncodedDenotes
pub mod EncodedModelBack
pub mod EncodedModelRead
pub mod EncodedRead
