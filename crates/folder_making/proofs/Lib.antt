pub mod Results
pub mod DirSteps
pub mod NotedSteps
pub mod MakeSteps
