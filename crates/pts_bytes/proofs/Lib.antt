mod Cuts
mod Lines
mod Numbers
mod Utf8
mod Same
