mod Pushes
mod Files
mod FaultLine
