pub mod ReadFeedFields
