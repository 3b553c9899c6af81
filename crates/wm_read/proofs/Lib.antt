pub mod Asked
mod SourcesRead
mod TextsRead
