mod Filling
mod Logons
mod Next
mod Places
mod Seen
