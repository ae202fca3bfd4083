mod Taken
mod Stepped
mod Fresh
mod Torn
mod Restarts
