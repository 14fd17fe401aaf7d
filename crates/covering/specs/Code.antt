-- What passes between functions, and no public contract reaches: Cover (when ends can be chosen that cover).
pub mod Cover
