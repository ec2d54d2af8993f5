pub mod ProductLaw
