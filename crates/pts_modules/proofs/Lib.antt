mod Once
mod Stack
mod Steps
mod Walk
