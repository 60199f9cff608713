mod Known
mod Placing
mod OneAnswer
mod NamesApart
mod JoinedSize
