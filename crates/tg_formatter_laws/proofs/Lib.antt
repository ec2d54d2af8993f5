mod Quoting
mod Following
mod Written
mod Lexed
mod Alike
mod Nesting
mod SpanlessLists
mod Trees
