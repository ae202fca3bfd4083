mod Whole
mod Stopped
mod Submitted
mod NextLines
mod Leaving
mod Going
mod Finishing
mod Exactly
