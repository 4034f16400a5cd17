pub mod Once
pub mod DrawnPages
pub mod PictureBytes
pub mod Pictures
pub mod Shown
pub mod Drawable
