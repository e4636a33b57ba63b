pub mod Fed
pub mod Feed
pub mod FeedState
pub mod FeedSteps
pub mod FileFeedView
pub mod MemFeedView
pub mod ReadFeedView
pub mod ReadWhole
