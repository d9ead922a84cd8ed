pub mod IntegerRows
