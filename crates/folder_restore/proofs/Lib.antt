pub mod RestoreSteps
