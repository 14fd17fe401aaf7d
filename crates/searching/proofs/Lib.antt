-- Laws that belong to no one function: Growth (what a search adds).
pub mod Growth
