pub mod NoLinks
pub mod Reflect
pub mod Sentences
pub mod Table
pub mod Tables
pub mod Wrong
