pub mod PlanLaws
pub mod WorkLaws
