mod Putting
mod Taking
mod Tying
