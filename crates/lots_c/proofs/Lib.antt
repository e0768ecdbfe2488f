pub mod Plains
pub mod OneToOne
pub mod WordPlaces
pub mod ReportSettled
