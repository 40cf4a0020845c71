mod Commits
mod Dealing
mod EntryRoom
mod Steps
