pub mod Tables
pub mod ShownValues
pub mod TrialBalances
pub mod StockCards
pub mod DocumentLists
pub mod ReportLaws
pub mod Amounts
