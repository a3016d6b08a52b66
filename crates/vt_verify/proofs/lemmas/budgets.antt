-- The budgets of events, the first one over the limit, and the lines of a report.
pub mod EventBudgets
pub mod FirstOverBudget
pub mod ReportLines
