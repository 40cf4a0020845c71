pub mod Overtaken
