mod Whys
mod Stopping
mod Looks
