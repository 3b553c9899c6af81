mod Among
mod Given
mod Pieces
mod Places
