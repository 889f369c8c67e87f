pub mod Agreement
pub mod Form
pub mod Keys
pub mod Rules
pub mod Said
pub mod Search
pub mod View
