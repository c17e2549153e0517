mod Drives
mod Sums
mod Tops
