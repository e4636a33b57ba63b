pub mod RecordsAhead
