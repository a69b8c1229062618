pub mod EndpointLoads
pub mod DeliveryLoads
pub mod AttemptLoads
pub mod TopicLoads
pub mod QuietReads
pub mod PageReads
