mod Rows
mod Totals
