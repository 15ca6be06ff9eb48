mod Blocks
mod Answering
