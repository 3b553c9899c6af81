pub mod Backwards
pub mod Refusals
mod ProgramRead
mod FilesLoaded
mod CheckLoaded
