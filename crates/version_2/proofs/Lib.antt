pub mod WholeSaves
pub mod WholeLoads
