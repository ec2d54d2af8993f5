mod Following
mod Lists
mod Arguments
