pub mod HouseAnswer
