pub mod CommandLists
pub mod PairLists
