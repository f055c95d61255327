mod Acted
mod Headings
mod Behind
