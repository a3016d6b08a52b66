mod EventSteps
mod Lists
mod Macros
mod Runs
