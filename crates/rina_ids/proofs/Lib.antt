mod InUse
mod Drawing
mod Places
mod Undone
