mod Answered
mod Belows
mod Thins
