pub mod ShortSeller
