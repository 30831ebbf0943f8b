mod Lines
mod Steps
mod Going
