pub mod TimesLaws
pub mod ListLaws
pub mod PlanLaws
pub mod ResponseVerdicts
