mod Promising
mod Rows
