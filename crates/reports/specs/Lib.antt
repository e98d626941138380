pub mod Report
pub mod Front
pub mod ReportLaws
pub mod Examples
