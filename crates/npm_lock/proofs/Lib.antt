mod Accepted
mod Answered
mod CutLaws
mod Found
mod Joined
mod Lacking
mod Locating
mod MembersOf
mod MissingOf
pub mod Numbers
mod NewLine
mod Printing
mod Picked
mod Reaching
mod Shallow
mod Sought
mod Whole
