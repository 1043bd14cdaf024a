mod Finding
mod Keeping
mod Listing
mod Marks
mod Named
mod Numbers
mod Order
mod SameKind
