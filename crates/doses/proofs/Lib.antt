mod Doses
mod Clips
